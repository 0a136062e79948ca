-- The definitions, computed on examples.
use Rattle.std.proofs.Common.{◌≡◌, [], ◌∷◌, ◌-◌, ◌^◌, codes, refl, Some, None, Ok, Err}
use Rattle.folded_reader.specs.Lines.{reading_of}
use Rattle.profile_records.specs.Frames.{functions_of, leaf_of}
use Rattle.folded_reader.specs.Files.{fault_from, stacks_of_file, fault_of_file, samples_of_file}
use Rattle.folded_reader.specs.Looking.{seen, adds}
use Rattle.folded_reader.specs.Reads.{stacks_so_far}
use Rattle.text_pieces.specs.Backwards.{end_of, handed_on}
use Rattle.cg_text.specs.declared.faults.Fault.TheVariants.{LineTooLong, FoldedLine, NumberTooLarge}

line-two : reading_of (codes "a;b;a 3") ≡ Ok (Some (record { frames = codes "a;b;a"; count = 3 }))
unfolding reading_of
line-two = refl

-- blanks belong to frames, but for the last
line-blanks : reading_of (codes "a b 2") ≡ Ok (Some (record { frames = codes "a b"; count = 2 }))
unfolding reading_of
line-blanks = refl

line-tab : reading_of (codes "a\t2\r") ≡ Ok (Some (record { frames = codes "a"; count = 2 }))
unfolding reading_of
line-tab = refl

line-blank_stack : reading_of (codes "  1") ≡ Ok (Some (record { frames = codes " "; count = 1 }))
unfolding reading_of
line-blank_stack = refl

line-zero : reading_of (codes "a 0") ≡ Ok (Some (record { frames = codes "a"; count = 0 }))
unfolding reading_of
line-zero = refl

line-empty : reading_of [] ≡ Ok None
unfolding reading_of
line-empty = refl

line-no_stack : reading_of (codes " 3") ≡ Err FoldedLine
unfolding reading_of
line-no_stack = refl

line-no_count : reading_of (codes "main") ≡ Err FoldedLine
unfolding reading_of
line-no_count = refl

line-blank_behind : reading_of (codes "a 1 ") ≡ Err FoldedLine
unfolding reading_of
line-blank_behind = refl

line-fraction : reading_of (codes "a 1.5") ≡ Err FoldedLine
unfolding reading_of
line-fraction = refl

line-sign : reading_of (codes "a +1") ≡ Err FoldedLine
unfolding reading_of
line-sign = refl

line-hexadecimal : reading_of (codes "a 0x1") ≡ Err FoldedLine
unfolding reading_of
line-hexadecimal = refl

line-most : reading_of (codes "a 9223372036854775807") ≡ Ok (Some (record { frames = codes "a"; count = 2 ^ 63 - 1 }))
unfolding reading_of
line-most = refl

line-more : reading_of (codes "a 9223372036854775808") ≡ Err NumberTooLarge
unfolding reading_of
line-more = refl

line-much_more : reading_of (codes "a 99999999999999999999") ≡ Err NumberTooLarge
unfolding reading_of
line-much_more = refl

-- two columns of counts are taken for one, and a comment for a stack
line-two_columns : reading_of (codes "a;b 2 3") ≡ Ok (Some (record { frames = codes "a;b 2"; count = 3 }))
unfolding reading_of
line-two_columns = refl

line-comment : reading_of (codes "# 5") ≡ Ok (Some (record { frames = codes "#"; count = 5 }))
unfolding reading_of
line-comment = refl

-- ---- frames

functions-of_three : functions_of (codes "a;b;a") ≡ codes "a" ∷ codes "b" ∷ codes "a" ∷ []
functions-of_three = refl

functions-without_names : functions_of (codes ";a;;") ≡ codes "???" ∷ codes "a" ∷ codes "???" ∷ codes "???" ∷ []
functions-without_names = refl

leaf-last : leaf_of (codes "main;f;g") ≡ codes "g"
leaf-last = refl

leaf-empty : leaf_of (codes "a;") ≡ codes "???"
leaf-empty = refl

-- ---- files

stacks-two : stacks_of_file (codes "a;b;a 3\n\na;b 2") ≡ record { at = 1; stack = record { frames = codes "a;b;a"; count = 3 } } ∷ record { at = 3; stack = record { frames = codes "a;b"; count = 2 } } ∷ []
unfolding reading_of
stacks-two = refl

samples-two : samples_of_file (codes "a;b;a 3\na;b 2\n") ≡ record { at = 1; function = codes "a"; count = 3 } ∷ record { at = 2; function = codes "b"; count = 2 } ∷ []
unfolding reading_of
samples-two = refl

fault-first : fault_of_file (codes "a 1\n\nb\n3") ≡ Some (FoldedLine, 3)
unfolding reading_of
fault-first = refl

fault-none : fault_of_file (codes "a 1\r\n\r\nb 1\r\n") ≡ None
unfolding reading_of
fault-none = refl

fault-long : fault_from 1 (Ok None ∷ Err LineTooLong ∷ Err FoldedLine ∷ []) ≡ Some (LineTooLong, 2)
fault-long = refl

-- ---- texts that may go on

so_far-whole_lines : stacks_so_far (codes "a 1\nb 2") ≡ record { at = 1; stack = record { frames = codes "a"; count = 1 } } ∷ []
unfolding reading_of
so_far-whole_lines = refl

so_far-before_a_fault : stacks_so_far (codes "a 1\n 3\nb 2\n") ≡ record { at = 1; stack = record { frames = codes "a"; count = 1 } } ∷ []
unfolding reading_of
so_far-before_a_fault = refl

-- ---- looking back

seen-first : seen (end_of reading_of (codes "a 1\n\nb\n3")) ≡ Some (FoldedLine, 3)
unfolding reading_of
seen-first = refl

held-before_a_fault : handed_on adds (end_of reading_of (codes "a;b 1\n\nb 2\n3\nc 4")) ≡ stacks_of_file (codes "a;b 1\n\nb 2\n")
unfolding reading_of
held-before_a_fault = refl

-- ---- the example of the format's README

stacks-readme : stacks_of_file (codes "unix`_sys_sysenter_post_swapgs 1401\nunix`_sys_sysenter_post_swapgs;genunix`close 5\n") ≡
    record { at = 1; stack = record { frames = codes "unix`_sys_sysenter_post_swapgs"; count = 1401 } }
    ∷ record { at = 2; stack = record { frames = codes "unix`_sys_sysenter_post_swapgs;genunix`close"; count = 5 } } ∷ []
unfolding reading_of
stacks-readme = refl

samples-readme : samples_of_file (codes "unix`_sys_sysenter_post_swapgs;genunix`close 5\n") ≡ record { at = 1; function = codes "genunix`close"; count = 5 } ∷ []
unfolding reading_of
samples-readme = refl
