use Rattle.http_exchange.proofs.BodyLemmas.{came_of}
use Rattle.http_exchange.proofs.bodies.body_comes.Goals as goal

pub returns : goal.returns
returns g c from to outcomes came = came_of g.T.Stream.reads from outcomes to came
