use Rattle.store_openers.proofs.path_openers.PathOpenerOpenerPageRunsFile.to_change.Goals as goal

pub returns : goal.returns
returns g c = c.store_to_change_in.ensures g.F.FileOpener.image c.in_ok-files.ensures
