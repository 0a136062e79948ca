use Rattle.cg_text.specs.declared.words.Namespace.TheVariants.{Object, File, Function}
use Rattle.callgrind_reader.proofs.names.Names.new.Goals as goal

pub returns : goal.returns
returns c = record {
  objects = c.in_ok-objects.ensures Object;
  files = c.in-Ok.ensures File;
  functions = c.in-Ok-new.ensures Function;
}
