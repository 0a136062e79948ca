use Rattle.std.proofs.Common.{◌≡◌, true, false, refl}
use Rattle.store_paths.proofs.disk.ReadOnlyDisk.set_len.Goals as goal

pub returns-in-Some-clause-frozen : goal.returns-in-Some-clause-frozen
returns-in-Some-clause-frozen g c = λ is. absurd (let wrong : false ≡ true = is in cc)

pub returns-in-Some-clause-usable : goal.returns-in-Some-clause-usable
returns-in-Some-clause-usable g c = refl

pub returns-in-Some-clause-key : goal.returns-in-Some-clause-key
returns-in-Some-clause-key g c = refl

pub returns-in-Some-clause-calm : goal.returns-in-Some-clause-calm
returns-in-Some-clause-calm g c = refl

pub returns-in-Some-clause-fair : goal.returns-in-Some-clause-fair
returns-in-Some-clause-fair g c = refl

pub returns-in-Some-clause-clean : goal.returns-in-Some-clause-clean
returns-in-Some-clause-clean g c = λ is. is

pub returns-in-None-clause-frozen : goal.returns-in-None-clause-frozen
returns-in-None-clause-frozen g c = λ is. absurd (let wrong : false ≡ true = is in cc)

pub returns-in-None-clause-usable : goal.returns-in-None-clause-usable
returns-in-None-clause-usable g c = refl

pub returns-in-None-clause-key : goal.returns-in-None-clause-key
returns-in-None-clause-key g c = refl

pub returns-in-None-clause-calm : goal.returns-in-None-clause-calm
returns-in-None-clause-calm g c = refl

pub returns-in-None-clause-fair : goal.returns-in-None-clause-fair
returns-in-None-clause-fair g c = refl

pub returns-in-None-clause-clean : goal.returns-in-None-clause-clean
returns-in-None-clause-clean g c = λ is. is

pub returns-in-None-clause-len : goal.returns-in-None-clause-len
returns-in-None-clause-len g c = tt
