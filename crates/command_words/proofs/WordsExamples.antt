-- What some words ask for.
use Rattle.std.proofs.Common.{◌≡◌, true, false, [], ◌∷◌, Some, None, codes, refl}
use Rattle.std.specs.Str.{chars}
use Rattle.clap.specs.Faults.{walk_fault, flags_fault, defaults_fault}
use Rattle.clap.specs.Walk.{walked}
use Rattle.command_words.specs.Words.{for_page, for_make, for_batch, asked}

plain : asked (codes "specparse" ∷ codes "page" ∷ codes "p" ∷ codes "d" ∷ codes "e" ∷ [])
    ≡ Some (for_page (record { page = codes "p"; dir = codes "d"; entities = codes "e"; piece = 4096; ahead = 8; preload = 0; dump = false; watch = 0 }))
unfolding walk_fault walked defaults_fault
plain = refl

with_options : asked (codes "specparse" ∷ codes "page" ∷ codes "--piece=+5" ∷ codes "p" ∷ codes "d" ∷ codes "--ahead" ∷ codes "007" ∷ codes "e" ∷ [])
    ≡ Some (for_page (record { page = codes "p"; dir = codes "d"; entities = codes "e"; piece = 5; ahead = 7; preload = 0; dump = false; watch = 0 }))
unfolding walk_fault walked defaults_fault
with_options = refl

with_dump : asked (codes "specparse" ∷ codes "page" ∷ codes "p" ∷ codes "--dump" ∷ codes "d" ∷ codes "e" ∷ [])
    ≡ Some (for_page (record { page = codes "p"; dir = codes "d"; entities = codes "e"; piece = 4096; ahead = 8; preload = 0; dump = true; watch = 0 }))
unfolding walk_fault walked defaults_fault
with_dump = refl

with_preload : asked (codes "specparse" ∷ codes "page" ∷ codes "--preload" ∷ codes "8" ∷ codes "p" ∷ codes "d" ∷ codes "e" ∷ [])
    ≡ Some (for_page (record { page = codes "p"; dir = codes "d"; entities = codes "e"; piece = 4096; ahead = 8; preload = 8; dump = false; watch = 0 }))
unfolding walk_fault walked defaults_fault
with_preload = refl

too_large_a_preload : asked (codes "specparse" ∷ codes "page" ∷ codes "--preload=9" ∷ codes "p" ∷ codes "d" ∷ codes "e" ∷ []) ≡ None
unfolding walk_fault walked defaults_fault
too_large_a_preload = refl

with_watchers : asked (codes "specparse" ∷ codes "page" ∷ codes "--watch" ∷ codes "8" ∷ codes "p" ∷ codes "d" ∷ codes "e" ∷ [])
    ≡ Some (for_page (record { page = codes "p"; dir = codes "d"; entities = codes "e"; piece = 4096; ahead = 8; preload = 0; dump = false; watch = 8 }))
unfolding walk_fault walked defaults_fault
with_watchers = refl

too_many_watchers : asked (codes "specparse" ∷ codes "page" ∷ codes "--watch" ∷ codes "9" ∷ codes "p" ∷ codes "d" ∷ codes "e" ∷ []) ≡ None
unfolding walk_fault walked defaults_fault
too_many_watchers = refl

no_number_of_watchers : asked (codes "specparse" ∷ codes "page" ∷ codes "--watch" ∷ codes "x" ∷ codes "p" ∷ codes "d" ∷ codes "e" ∷ []) ≡ None
unfolding walk_fault walked defaults_fault
no_number_of_watchers = refl

dump_twice : asked (codes "specparse" ∷ codes "page" ∷ codes "--dump" ∷ codes "--dump" ∷ codes "p" ∷ codes "d" ∷ codes "e" ∷ []) ≡ None
unfolding walk_fault walked defaults_fault
dump_twice = refl

an_empty_piece : asked (codes "specparse" ∷ codes "page" ∷ codes "--piece" ∷ codes "0" ∷ codes "p" ∷ codes "d" ∷ codes "e" ∷ []) ≡ None
unfolding walk_fault walked defaults_fault
an_empty_piece = refl

no_entities : asked (codes "specparse" ∷ codes "page" ∷ codes "p" ∷ codes "d" ∷ []) ≡ None
unfolding walk_fault walked defaults_fault
no_entities = refl

help : asked (codes "specparse" ∷ codes "--help" ∷ []) ≡ None
unfolding walk_fault walked defaults_fault
help = refl

version : asked (codes "specparse" ∷ codes "page" ∷ codes "--version" ∷ codes "p" ∷ codes "d" ∷ codes "e" ∷ []) ≡ None
unfolding walk_fault walked defaults_fault
version = refl

no_words : asked [] ≡ None
unfolding walk_fault walked defaults_fault
no_words = refl

made_page : asked (codes "specparse" ∷ codes "make" ∷ codes "2147483647" ∷ codes "50000" ∷ []) ≡ Some (for_make (record { number = 2147483647; count = 50000 }))
unfolding walk_fault walked defaults_fault
made_page = refl

too_large_a_number : asked (codes "specparse" ∷ codes "make" ∷ codes "2147483648" ∷ codes "1" ∷ []) ≡ None
unfolding walk_fault walked defaults_fault
too_large_a_number = refl

no_items : asked (codes "specparse" ∷ codes "make" ∷ codes "1" ∷ codes "0" ∷ []) ≡ None
unfolding walk_fault walked defaults_fault
no_items = refl

too_many_items : asked (codes "specparse" ∷ codes "make" ∷ codes "1" ∷ codes "50001" ∷ []) ≡ None
unfolding walk_fault walked defaults_fault
too_many_items = refl

no_count : asked (codes "specparse" ∷ codes "make" ∷ codes "1" ∷ []) ≡ None
unfolding walk_fault walked defaults_fault
no_count = refl

least_made_page : asked (codes "specparse" ∷ codes "make" ∷ codes "0" ∷ codes "1" ∷ []) ≡ Some (for_make (record { number = 0; count = 1 }))
unfolding walk_fault walked defaults_fault
least_made_page = refl

signs_and_zeros : asked (codes "specparse" ∷ codes "make" ∷ codes "+5" ∷ codes "007" ∷ []) ≡ Some (for_make (record { number = 5; count = 7 }))
unfolding walk_fault walked defaults_fault
signs_and_zeros = refl

no_number : asked (codes "specparse" ∷ codes "make" ∷ []) ≡ None
unfolding walk_fault walked defaults_fault
no_number = refl

a_word_more : asked (codes "specparse" ∷ codes "make" ∷ codes "1" ∷ codes "4" ∷ codes "4" ∷ []) ≡ None
unfolding walk_fault walked defaults_fault
a_word_more = refl

a_negative_number : asked (codes "specparse" ∷ codes "make" ∷ codes "-1" ∷ codes "4" ∷ []) ≡ None
unfolding walk_fault flags_fault chars walked defaults_fault
a_negative_number = refl

no_numeral : asked (codes "specparse" ∷ codes "make" ∷ codes "1" ∷ codes "four" ∷ []) ≡ None
unfolding walk_fault walked defaults_fault
no_numeral = refl

an_option_of_page : asked (codes "specparse" ∷ codes "make" ∷ codes "--dump" ∷ codes "1" ∷ codes "4" ∷ []) ≡ None
unfolding walk_fault walked defaults_fault
an_option_of_page = refl

another_command : asked (codes "specparse" ∷ codes "makes" ∷ codes "1" ∷ codes "4" ∷ []) ≡ None
unfolding walk_fault walked defaults_fault
another_command = refl

no_command : asked (codes "specparse" ∷ []) ≡ None
unfolding walk_fault walked defaults_fault
no_command = refl

a_list : asked (codes "specparse" ∷ codes "batch" ∷ codes "l" ∷ codes "d" ∷ codes "e" ∷ []) ≡ Some (for_batch (record { list = codes "l"; dir = codes "d"; entities = codes "e" }))
unfolding walk_fault walked defaults_fault
a_list = refl

no_list : asked (codes "specparse" ∷ codes "batch" ∷ codes "d" ∷ codes "e" ∷ []) ≡ None
unfolding walk_fault walked defaults_fault
no_list = refl

a_dump_of_a_list : asked (codes "specparse" ∷ codes "batch" ∷ codes "--dump" ∷ codes "l" ∷ codes "d" ∷ codes "e" ∷ []) ≡ None
unfolding walk_fault walked defaults_fault
a_dump_of_a_list = refl

watchers_of_a_list : asked (codes "specparse" ∷ codes "batch" ∷ codes "--watch" ∷ codes "1" ∷ codes "l" ∷ codes "d" ∷ codes "e" ∷ []) ≡ None
unfolding walk_fault walked defaults_fault
watchers_of_a_list = refl

too_many_words : asked (codes "specparse" ∷ codes "batch" ∷ codes "l" ∷ codes "d" ∷ codes "e" ∷ codes "f" ∷ []) ≡ None
unfolding walk_fault walked defaults_fault
too_many_words = refl
