use Rattle.cost_exports.proofs.csv_texts.write_header.Goals as goal

pub returns : goal.returns
returns c text has =
    rw (c.as_slice.ensures, c.as_slice-2.ensures, c.as_slice-3.ensures, c.as_slice-4.ensures, c.as_slice-5.ensures, c.as_slice-6.ensures) at (c.write_fields.ensures text has)
