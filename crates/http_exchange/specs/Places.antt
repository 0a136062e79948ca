-- The table of routes: its paths, and their methods.
use Rattle.std.specs.Prelude.{ℕ, bytes_eq, if◌then◌else◌, List, [], ◌∷◌, ◌++◌, codes, Option, Some, None}
use Rattle.cost_rows.specs.declared.keys.Key.TheVariants as key
use Rattle.report_texts.specs.declared.call_sides.CallSide.TheVariants as side
use Rattle.http_exchange.specs.declared.places.Place.{Place}
use Rattle.http_exchange.specs.declared.places.Place.TheVariants as at
use Rattle.http_exchange.specs.declared.places.Method.{Method}
use Rattle.http_exchange.specs.declared.places.Method.TheVariants.{Get, Post, Put, Delete}

-- the paths in their order
abbrev pub places : List Place
places =
    at.CallgrindRuns ∷ at.FoldedRuns ∷ at.Runs ∷ at.Groups ∷ at.OneRun ∷ at.OneGroup ∷ at.Member ∷ at.Baseline
    ∷ at.Report key.Object ∷ at.Report key.File ∷ at.Report key.Function ∷ at.Report key.Line ∷ at.Report key.Thread
    ∷ at.Inclusive ∷ at.Calls side.Callers ∷ at.Calls side.Callees ∷ at.Annotate
    ∷ at.Subtract key.Object ∷ at.Subtract key.File ∷ at.Subtract key.Function ∷ at.Subtract key.Line ∷ at.Subtract key.Thread
    ∷ at.Verify ∷ at.Csv ∷ at.Folded ∷ []

-- the pattern of each: a name in braces matches one part of at least one byte
abbrev pub pattern_of : Place → List ℕ
pattern_of at.CallgrindRuns = codes "/runs/callgrind"
pattern_of at.FoldedRuns = codes "/runs/folded"
pattern_of at.Runs = codes "/runs"
pattern_of at.Groups = codes "/groups"
pattern_of at.OneRun = codes "/runs/{n}"
pattern_of at.OneGroup = codes "/groups/{g}"
pattern_of at.Member = codes "/groups/{g}/runs/{n}"
pattern_of at.Baseline = codes "/groups/{g}/baseline/{n}"
pattern_of (at.Report key.Object) = codes "/reports/object"
pattern_of (at.Report key.File) = codes "/reports/file"
pattern_of (at.Report key.Function) = codes "/reports/function"
pattern_of (at.Report key.Line) = codes "/reports/line"
pattern_of (at.Report key.Thread) = codes "/reports/thread"
pattern_of at.Inclusive = codes "/inclusive"
pattern_of (at.Calls side.Callers) = codes "/callers"
pattern_of (at.Calls side.Callees) = codes "/callees"
pattern_of at.Annotate = codes "/annotate"
pattern_of (at.Subtract key.Object) = codes "/subtract/object"
pattern_of (at.Subtract key.File) = codes "/subtract/file"
pattern_of (at.Subtract key.Function) = codes "/subtract/function"
pattern_of (at.Subtract key.Line) = codes "/subtract/line"
pattern_of (at.Subtract key.Thread) = codes "/subtract/thread"
pattern_of at.Verify = codes "/verify"
pattern_of at.Csv = codes "/csv"
pattern_of at.Folded = codes "/folded"

-- the methods of each, in their order
abbrev pub methods_of : Place → List Method
methods_of at.CallgrindRuns = Post ∷ []
methods_of at.FoldedRuns = Post ∷ []
methods_of at.OneRun = Delete ∷ []
methods_of at.OneGroup = Put ∷ Delete ∷ []
methods_of at.Member = Put ∷ Delete ∷ []
methods_of at.Baseline = Put ∷ []
methods_of at.Annotate = Post ∷ []
methods_of at.Runs = Get ∷ []
methods_of at.Groups = Get ∷ []
methods_of (at.Report by) = Get ∷ []
methods_of at.Inclusive = Get ∷ []
methods_of (at.Calls of) = Get ∷ []
methods_of (at.Subtract by) = Get ∷ []
methods_of at.Verify = Get ∷ []
methods_of at.Csv = Get ∷ []
methods_of at.Folded = Get ∷ []

abbrev pub method_text : Method → List ℕ
method_text Get = codes "GET"
method_text Post = codes "POST"
method_text Put = codes "PUT"
method_text Delete = codes "DELETE"

-- the method of this text, in just these letters
abbrev pub method_in : List Method → List ℕ → Option Method
method_in [] text = None
method_in (one ∷ more) text = if bytes_eq (method_text one) text then Some one else method_in more text

-- methods as the field Allow tells them
abbrev pub joined : List Method → List ℕ
joined [] = []
joined (one ∷ []) = method_text one
joined (one ∷ two ∷ more) = method_text one ++ (codes ", " ++ joined (two ∷ more))
