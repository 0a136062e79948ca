use Rattle.store_openers.proofs.path_openers.PathOpenerOpenerPageRunsFile.alone.Goals as goal

pub returns : goal.returns
returns g c = c.in_ok-store_in.ensures g.F.FileOpener.image c.in_ok-files.ensures
