use Rattle.host_stores.proofs.refusals.is_migratable.Goals as goal

pub returns : goal.returns
returns g c = record { old = c.in_ok-conn.conn; finds = c.in_ok-conn.ensures; brought_up = c.in_ok-is_brought_up.ensures }
