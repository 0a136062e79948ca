-- The comma-separated text of rows is read as these rows.
use Rattle.std.proofs.Common.{zero, suc, ◌≡◌, ℕ, ◌+◌, ◌-◌, ◌<◌, ◌≤◌, if◌then◌else◌, List, [], ◌∷◌, ◌++◌, length, map, refl, ap, ◌∙◌, arith, length-append}
use Rattle.std.proofs.Math.Nat.{zero-add}
use Rattle.csv.specs.Machine.{next_record}
use Rattle.csv.specs.Reading.{default_config, records, records_from}
use Rattle.csv.specs.Writing.{default_writer, is_blank, read_back, row_body, row_text}
use Rattle.csv.specs.declared.parser.State.TheVariants as st
use Rattle.csv.proofs.RoundTrip.{read-write, rows_text}
use Rattle.report_texts.specs.Csv.{EventSpot, csv_fields, csv_header, csv_row, csv_rows, csv_text}

-- as many as there are, however many more are asked for
read-all : (rows : List (List (List ℕ))) (more : ℕ) → records_from default_config (length rows + more) st.StartRecord (rows_text rows) ≡ map read_back rows
unfolding records_from rows_text next_record
read-all [] zero = refl
read-all [] (suc more) = ap (λ n. records_from default_config n st.StartRecord (rows_text [])) (zero-add (suc more))
read-all (row ∷ rows) more =
    let many : length (row ∷ rows) + more ≡ suc (length rows + more) = omega arith in
    ap (λ n. records_from default_config n st.StartRecord (row_text default_writer row ++ rows_text rows)) many
    ∙ rw (read-write row (rows_text rows)) (ap (λ (rest : List (List (List ℕ))). read_back row ∷ rest) (read-all rows more))

-- a row has its end
row_some : (fields : List (List ℕ)) → 0 < length (row_text default_writer fields)
row_some fields =
    let blank : List ℕ = if is_blank default_writer fields then 34 ∷ 34 ∷ [] else [] in
    let tail = length-append blank (10 ∷ []) in
    let all = length-append (row_body default_writer fields) (blank ++ 10 ∷ []) in
    omega (arith, tail, all)

rows_some : (rows : List (List (List ℕ))) → length rows ≤ length (rows_text rows)
unfolding rows_text
rows_some [] = omega arith
rows_some (row ∷ rows) =
    let some = row_some row in
    let rest = rows_some rows in
    let all = length-append (row_text default_writer row) (rows_text rows) in
    omega (arith, some, rest, all)

read-rows : (rows : List (List (List ℕ))) → records default_config (rows_text rows) ≡ map read_back rows
read-rows rows =
    let some = rows_some rows in
    let many : length (rows_text rows) + 1 ≡ length rows + ((length (rows_text rows) + 1) - length rows) = omega (arith, some) in
    ap (λ n. records_from default_config n st.StartRecord (rows_text rows)) many ∙ read-all rows ((length (rows_text rows) + 1) - length rows)

rows_are : (sums : List (EventSpot × ℕ)) → csv_rows sums ≡ rows_text (map csv_fields sums)
unfolding rows_text
rows_are [] = refl
rows_are (e ∷ sums) = ap (λ bytes. csv_row e ++ bytes) (rows_are sums)

same_fields : (sums : List (EventSpot × ℕ)) → map read_back (map csv_fields sums) ≡ map csv_fields sums
same_fields [] = refl
same_fields (e ∷ sums) = ap (λ rest. csv_fields e ∷ rest) (same_fields sums)

pub csv-read : (sums : List (EventSpot × ℕ)) → records default_config (csv_text sums) ≡ csv_header ∷ map csv_fields sums
unfolding rows_text
csv-read sums =
    ap (λ bytes. records default_config (row_text default_writer csv_header ++ bytes)) (rows_are sums)
    ∙ read-rows (csv_header ∷ map csv_fields sums)
    ∙ ap (λ rest. csv_header ∷ rest) (same_fields sums)
