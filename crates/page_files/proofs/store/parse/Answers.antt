use Rattle.std.proofs.Common.{◌≡◌, ℕ, Bool, List, length, Some, None, Option, sym, ap, ◌∙◌, IsSomeAnd, IfSome}
use Rattle.sqlite_btree.specs.Part.{Part}
use Rattle.sqlite_btree.specs.Items.{Form, kind_at}
use Rattle.sqlite_btree.specs.Tree.{header_of, IsNode, cells_of}
use Rattle.sqlite_btree.specs.Loaded.{IsNodeOf}
use Rattle.sqlite_format.specs.Page.{page_cells}
use Rattle.sqlite_format.proofs.PageLemmas.{length-page_cells}
use Rattle.sqlite_format.specs.declared.node.Node.{Node}
use Rattle.std.proofs.Common.{IsOkAnd, ok_or}
use Rattle.sqlite_pages.specs.declared.error.Error.{Error}
use Rattle.page_files.proofs.store.parse.Goals as goal

parsed : (form : Form) (leaf : Bool) (part : Part) (page : ℕ) (o : Option Node) (e : Error) (bytes : List ℕ) (header : ℕ) → bytes ≡ part page
    → header ≡ header_of page → IsNode form leaf part page → IfSome o (λ node. (node.bytes.now ≡ bytes) × (node.header ≡ header))
    → IsSomeAnd o (λ node. node.kind ≡ kind_at form leaf) → IsOkAnd (ok_or o e) (IsNodeOf form leaf part page)
parsed form leaf part page None e bytes header b h sound same kind = kind
parsed form leaf part page (Some node) e bytes header b h sound same kind =
    let is = same.0 ∙ b in
    let at = same.1 ∙ h in
    let cells : page_cells node.kind node.bytes.now node.header ≡ cells_of form leaf part page = rw (kind, is, at) in
    record {
      sound = rw (kind, is, at) sound.sound;
      kind = kind;
      size = ap length is ∙ sound.size;
      bytes = is;
      cells = cells;
      count = node.counted ∙ sym (length-page_cells node.kind node.bytes.now node.header) ∙ ap length cells;
      right = rw (is, at);
    }

pub returns-clause-found : goal.returns-clause-found
returns-clause-found c =
    λ form leaf part bytes page.
    rw c.ok_or.ensures.value (parsed form leaf part c.args.page c.parse.result _ _ _ bytes c.header.ensures.value page c.parse.ensures.same
    (c.parse.ensures.sound (kind_at form leaf) (rw (bytes, c.header.ensures.value) page.sound)))
