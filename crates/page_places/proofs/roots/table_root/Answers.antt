use Rattle.std.proofs.Common.{◌≡◌, None, Some, ap, slice_index, subst, sym, ◌∙◌}
use Rattle.page_files.specs.Files.{page_size, pages_of}
use Rattle.page_files.proofs.Standing.{catalog_shown}
use Rattle.page_rows.specs.Tables.{IsNamed, root_of_tree}
use Rattle.page_places.proofs.Placing.{placed_at}
use Rattle.page_places.proofs.roots.table_root.Goals as goal

pub returns-in-Ok-Some-clause-found : goal.returns-in-Ok-Some-clause-found
returns-in-Ok-Some-clause-found g c faithful = λ db known is at table there name.
    let file = c.args.file.now in
    let placed = placed_at is.wanted db (catalog_shown file is.stands) is.sound at table there in
    let named = subst (IsNamed is.wanted table.tree) (name ∙ sym c.as_bytes.ensures.value) placed.named in
    let found = c.in-Ok-Some.ensures.done faithful is.wanted table.tree (record { is_db = is.stands.is_db; no_zero = is.no_zero }) named in
    let stated : Some c.in-Ok-Some.root ≡ Some (root_of_tree (page_size file) is.wanted (pages_of file) table.tree) = sym c.in-Ok-Some.field-0-is ∙ found in
    let same : c.in-Ok-Some.root ≡ root_of_tree (page_size file) is.wanted (pages_of file) table.tree = cc in
    same ∙ ap (λ l. slice_index l table.tree) (sym is.stands.known_are)

pub returns-in-Ok-None-clause-failed : goal.returns-in-Ok-None-clause-failed
returns-in-Ok-None-clause-failed g c faithful = λ db known is at table there name.
    let file = c.args.file.now in
    let placed = placed_at is.wanted db (catalog_shown file is.stands) is.sound at table there in
    let named = subst (IsNamed is.wanted table.tree) (name ∙ sym c.as_bytes.ensures.value) placed.named in
    let no : None ≡ Some (root_of_tree (page_size file) is.wanted (pages_of file) table.tree) = sym c.in-Ok-None.field-0-is ∙ c.in-Ok-None.ensures.done faithful is.wanted table.tree (record { is_db = is.stands.is_db; no_zero = is.no_zero }) named in
    absurd cc

pub returns-in-Err-clause-failed : goal.returns-in-Err-clause-failed
returns-in-Err-clause-failed g c faithful = λ db known is at table there name.
    let placed = placed_at is.wanted db (catalog_shown c.args.file.now is.stands) is.sound at table there in
    let named = subst (IsNamed is.wanted table.tree) (name ∙ sym c.as_bytes.ensures.value) placed.named in
    (c.in-Err.error, c.in-Err.ensures.done faithful is.wanted table.tree (record { is_db = is.stands.is_db; no_zero = is.no_zero }) named, c.error_of.ensures)
