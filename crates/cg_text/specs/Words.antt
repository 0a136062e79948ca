-- What a word of a name line names, and what for.
use Rattle.cg_text.specs.declared.words.NameWord.{NameWord}
use Rattle.cg_text.specs.declared.words.NameWord.TheVariants.{Ob, Fl, Fi, Fe, Fn, Cob, Cfi, Cfl, Cfn, Jfi, Jfn}
use Rattle.cg_text.specs.declared.words.Namespace.{Namespace}
use Rattle.cg_text.specs.declared.words.Namespace.TheVariants.{Object, File, Function}
use Rattle.cg_text.specs.declared.words.Role.{Role}
use Rattle.cg_text.specs.declared.words.Role.TheVariants.{Own, Called, Jumped}

abbrev pub namespace_of : NameWord → Namespace
namespace_of Ob = Object
namespace_of Cob = Object
namespace_of Fl = File
namespace_of Fi = File
namespace_of Fe = File
namespace_of Cfi = File
namespace_of Cfl = File
namespace_of Jfi = File
namespace_of Fn = Function
namespace_of Cfn = Function
namespace_of Jfn = Function

abbrev pub role_of : NameWord → Role
role_of Ob = Own
role_of Fl = Own
role_of Fi = Own
role_of Fe = Own
role_of Fn = Own
role_of Cob = Called
role_of Cfi = Called
role_of Cfl = Called
role_of Cfn = Called
role_of Jfi = Jumped
role_of Jfn = Jumped
