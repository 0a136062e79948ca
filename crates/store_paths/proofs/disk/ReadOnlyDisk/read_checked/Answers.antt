use Rattle.std.proofs.Common.{◌≡◌, true, false, refl}
use Rattle.store_paths.proofs.disk.ReadOnlyDisk.read_checked.Goals as goal

pub returns-in_default-clause-read : goal.returns-in_default-clause-read
returns-in_default-clause-read g c = rw c.in_default.is c.read_checked.ensures.read

pub returns-in_default-clause-rot : goal.returns-in_default-clause-rot
returns-in_default-clause-rot g c = rw c.in_default.is c.read_checked.ensures.rot

pub returns-in_default-clause-rotten : goal.returns-in_default-clause-rotten
returns-in_default-clause-rotten g c = rw c.in_default.is c.read_checked.ensures.rotten

pub returns-in_default-clause-tested : goal.returns-in_default-clause-tested
returns-in_default-clause-tested g c = c.read_checked.ensures.tested

pub returns-in_default-clause-clean : goal.returns-in_default-clause-clean
returns-in_default-clause-clean g c = c.read_checked.ensures.clean

pub returns-in_default-clause-fair : goal.returns-in_default-clause-fair
returns-in_default-clause-fair g c = c.read_checked.ensures.fair

pub returns-in_default-clause-key : goal.returns-in_default-clause-key
returns-in_default-clause-key g c = c.read_checked.ensures.key

pub returns-in_default-clause-frozen : goal.returns-in_default-clause-frozen
returns-in_default-clause-frozen g c = λ is. absurd (let wrong : false ≡ true = is in cc)

pub returns-in_default-clause-usable : goal.returns-in_default-clause-usable
returns-in_default-clause-usable g c = refl

pub returns-then-not-copy_out-clause-frozen : goal.returns-then-not-copy_out-clause-frozen
returns-then-not-copy_out-clause-frozen g c = λ is. absurd (let wrong : false ≡ true = is in cc)

pub returns-then-not-copy_out-clause-usable : goal.returns-then-not-copy_out-clause-usable
returns-then-not-copy_out-clause-usable g c = refl

pub returns-then-digest_of-want-clause-frozen : goal.returns-then-digest_of-want-clause-frozen
returns-then-digest_of-want-clause-frozen g c = λ is. absurd (let wrong : false ≡ true = is in cc)

pub returns-then-digest_of-want-clause-usable : goal.returns-then-digest_of-want-clause-usable
returns-then-digest_of-want-clause-usable g c = refl

pub returns-clause-frozen : goal.returns-clause-frozen
returns-clause-frozen g c = λ is. absurd (let wrong : false ≡ true = is in cc)

pub returns-clause-usable : goal.returns-clause-usable
returns-clause-usable g c = refl

pub returns-then-not-copy_out-clause-read : goal.returns-then-not-copy_out-clause-read
returns-then-not-copy_out-clause-read g c = tt

pub returns-then-not-copy_out-clause-tested : goal.returns-then-not-copy_out-clause-tested
returns-then-not-copy_out-clause-tested g c = tt

pub returns-then-not-copy_out-clause-rotten : goal.returns-then-not-copy_out-clause-rotten
returns-then-not-copy_out-clause-rotten g c = λ is. refl

pub returns-then-digest_of-want-clause-read : goal.returns-then-digest_of-want-clause-read
returns-then-digest_of-want-clause-read g c = tt

pub returns-then-digest_of-want-clause-tested : goal.returns-then-digest_of-want-clause-tested
returns-then-digest_of-want-clause-tested g c = tt

pub returns-then-digest_of-want-clause-rotten : goal.returns-then-digest_of-want-clause-rotten
returns-then-digest_of-want-clause-rotten g c = λ is. refl

pub returns-then-not-copy_out-clause-seen : goal.returns-then-not-copy_out-clause-seen
returns-then-not-copy_out-clause-seen g c = refl

pub returns-then-not-copy_out-clause-key : goal.returns-then-not-copy_out-clause-key
returns-then-not-copy_out-clause-key g c = refl

pub returns-then-not-copy_out-clause-rot : goal.returns-then-not-copy_out-clause-rot
returns-then-not-copy_out-clause-rot g c = refl

pub returns-then-not-copy_out-clause-fair : goal.returns-then-not-copy_out-clause-fair
returns-then-not-copy_out-clause-fair g c = refl

pub returns-then-not-copy_out-clause-clean : goal.returns-then-not-copy_out-clause-clean
returns-then-not-copy_out-clause-clean g c = λ is. is

pub returns-then-digest_of-want-clause-seen : goal.returns-then-digest_of-want-clause-seen
returns-then-digest_of-want-clause-seen g c = refl

pub returns-then-digest_of-want-clause-key : goal.returns-then-digest_of-want-clause-key
returns-then-digest_of-want-clause-key g c = refl

pub returns-then-digest_of-want-clause-rot : goal.returns-then-digest_of-want-clause-rot
returns-then-digest_of-want-clause-rot g c = refl

pub returns-then-digest_of-want-clause-fair : goal.returns-then-digest_of-want-clause-fair
returns-then-digest_of-want-clause-fair g c = refl

pub returns-then-digest_of-want-clause-clean : goal.returns-then-digest_of-want-clause-clean
returns-then-digest_of-want-clause-clean g c = λ is. is

pub returns-clause-seen : goal.returns-clause-seen
returns-clause-seen g c = refl

pub returns-clause-key : goal.returns-clause-key
returns-clause-key g c = refl

pub returns-clause-rot : goal.returns-clause-rot
returns-clause-rot g c = refl

pub returns-clause-fair : goal.returns-clause-fair
returns-clause-fair g c = refl

pub returns-clause-clean : goal.returns-clause-clean
returns-clause-clean g c = λ is. is
