-- A call that takes no row leaves a tree as it is.
use Rattle.std.proofs.Common.{◌≡◌, ℕ, ◌≤◌, List, ◌++◌, length, take, refl, sym, subst, arith, append-nil}
use Rattle.sqlite_pages.specs.PageMap.{PageMap}
use Rattle.sqlite_format.specs.declared.kind.Tree.{Tree}
use Rattle.sqlite_btree.specs.Chain.{Entry, Layout}
use Rattle.sqlite_btree.specs.Stored.{Order, IsLaidIn, IsWhole, IsWritten}
use Rattle.page_files.specs.Rows.{NewRow, entries_of}

pub none_taken : {tree : Tree} {order : Order} {usable root : ℕ} {layout : Layout} {entries : List Entry} {before after : PageMap} (rows : List NewRow) → after ≡ before → IsLaidIn layout before
    → IsWhole tree order usable layout root entries
    → (0 ≤ length rows) × IsWritten layout before after (λ new. IsWhole tree order usable new root (entries ++ entries_of tree (take 0 rows)))
none_taken {tree} {order} {usable} {root} {layout} {entries} {before} {after} rows same laid whole = (
  omega arith,
  subst (λ pages. IsWritten layout before pages (λ new. IsWhole tree order usable new root (entries ++ entries_of tree (take 0 rows)))) (sym same) (record {
    new = layout;
    moves = record { laid = laid; others = λ n free some. (refl, free); no_stray = λ n some free. (some, free) };
    fact = subst (IsWhole tree order usable layout root) (sym (append-nil entries)) whole;
  }),
)
