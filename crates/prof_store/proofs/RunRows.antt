-- What a walk over the rows of a run tells of its lines.
use Rattle.std.proofs.Common.{◌≡◌, ap, ◌∙◌}
use Rattle.plain_tables.specs.Tables.{StoredCell, StoredCall, StoredStack}
use Rattle.prof_store.specs.Tables.{cell_columns, arc_columns, stack_columns}

-- ---- cells

pub one_cell : (a b : StoredCell) → cell_columns a ≡ cell_columns b → a ≡ b
one_cell a b h =
    let run_is : a.run ≡ b.run = cc in
    let object_is : a.object ≡ b.object = cc in
    let file_is : a.file ≡ b.file = cc in
    let function_is : a.function ≡ b.function = cc in
    let line_is : a.line ≡ b.line = cc in
    let thread_is : a.thread ≡ b.thread = cc in
    let event_is : a.event ≡ b.event = cc in
    let cost_is : a.cost ≡ b.cost = cc in
    ap (λ x. record a { run = x }) run_is ∙ ap (λ x. record a { run = b.run; object = x }) object_is ∙ ap (λ x. record a { run = b.run; object = b.object; file = x }) file_is ∙ ap (λ x. record a { run = b.run; object = b.object; file = b.file; function = x }) function_is ∙ ap (λ x. record b { line = x; thread = a.thread; event = a.event; cost = a.cost }) line_is ∙ ap (λ x. record b { thread = x; event = a.event; cost = a.cost }) thread_is ∙ ap (λ x. record b { event = x; cost = a.cost }) event_is ∙ ap (λ x. record b { cost = x }) cost_is

-- ---- arcs

pub one_call : (a b : StoredCall) → arc_columns a ≡ arc_columns b → a ≡ b
one_call a b h =
    let run_is : a.run ≡ b.run = cc in
    let object_is : a.object ≡ b.object = cc in
    let file_is : a.file ≡ b.file = cc in
    let function_is : a.function ≡ b.function = cc in
    let line_is : a.line ≡ b.line = cc in
    let called_object_is : a.called_object ≡ b.called_object = cc in
    let called_file_is : a.called_file ≡ b.called_file = cc in
    let called_function_is : a.called_function ≡ b.called_function = cc in
    let part_is : a.part ≡ b.part = cc in
    let sum_is : a.sum ≡ b.sum = cc in
    ap (λ x. record a { run = x }) run_is ∙ ap (λ x. record a { run = b.run; object = x }) object_is ∙ ap (λ x. record a { run = b.run; object = b.object; file = x }) file_is ∙ ap (λ x. record a { run = b.run; object = b.object; file = b.file; function = x }) function_is ∙ ap (λ x. record a { run = b.run; object = b.object; file = b.file; function = b.function; line = x }) line_is ∙ ap (λ x. record a { run = b.run; object = b.object; file = b.file; function = b.function; line = b.line; called_object = x }) called_object_is ∙ ap (λ x. record b { called_file = x; called_function = a.called_function; part = a.part; sum = a.sum }) called_file_is ∙ ap (λ x. record b { called_function = x; part = a.part; sum = a.sum }) called_function_is ∙ ap (λ x. record b { part = x; sum = a.sum }) part_is ∙ ap (λ x. record b { sum = x }) sum_is

-- ---- stacks

pub one_stack : (a b : StoredStack) → stack_columns a ≡ stack_columns b → a ≡ b
one_stack a b h =
    let run_is : a.run ≡ b.run = cc in
    let frames_is : a.frames ≡ b.frames = cc in
    let count_is : a.count ≡ b.count = cc in
    ap (λ x. record a { run = x }) run_is ∙ ap (λ x. record a { run = b.run; frames = x }) frames_is ∙ ap (λ x. record b { count = x }) count_is
