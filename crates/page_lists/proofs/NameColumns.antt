-- Names, by their columns.
use Rattle.std.proofs.Common.{◌≡◌, pos, List, [], ◌∷◌, map, ap, ap₂, ◌∙◌}
use Rattle.sqlite_value.specs.declared.value.Value.TheVariants.{Null, Int, Blob}
use Rattle.sqlite_value.specs.Order.{Row, column}
use Rattle.plain_tables.specs.Tables.{NameRow}
use Rattle.prof_store.specs.Names.{SaysName, SayNames, number_read}
use Rattle.prof_store.specs.Tables.{name_columns, number}
use Rattle.run_lists.specs.NameRows.{name_row}
use Rattle.run_lists.specs.declared.held_names.HeldName.{HeldName}
use Rattle.page_lists.proofs.Said.{read_as_said}

one_name : (a b : NameRow) → name_columns a ≡ name_columns b → a ≡ b
one_name a b h =
    let number_is : a.number ≡ b.number = cc in
    let name_is : a.name ≡ b.name = cc in
    ap₂ (λ n m. record { number = n; name = m }) number_is name_is

-- rows that were read as names say these alone
pub names_read : (rows : List Row) (names : List NameRow) → SayNames rows names → (read : List HeldName) → map (λ n. name_columns (name_row n)) read ≡ map (λ (row : Row). row) rows → map name_row read ≡ names
names_read rows names say read = read_as_said name_row name_columns one_name (λ row. row) (SaysName say.far) same rows names read say.said
  where
    same : (row : Row) (line other : NameRow) → SaysName say.far row line → name_columns other ≡ row → name_columns other ≡ name_columns line
    same row line other says is =
        let id_is : Int (pos other.number) ≡ Int says.id = ap (λ r. column r 0) is ∙ says.has_id in
        let name_is : Blob other.name ≡ Blob line.name = ap (λ r. column r 2) is ∙ says.has_bytes in
        let numbered : pos other.number ≡ says.id = cc in
        let named : other.name ≡ line.name = cc in
        ap₂ (λ n m. number n ∷ Null ∷ Blob m ∷ []) (ap (number_read say.far) numbered ∙ says.number_is) named
