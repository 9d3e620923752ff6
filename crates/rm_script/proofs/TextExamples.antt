-- The definitions of texts, computed on examples.
use Rattle.std.proofs.Common.{◌≡◌, [], ◌∷◌, codes, refl}
use Rattle.std.specs.Fmt.{digits}
use Rattle.rm_events.specs.declared.operations.Reply.TheVariants as reply
use Rattle.rm_script.specs.Texts.{created_line, entry_line, mismatches_line, restart_line, row_line, text_of, turn_line, unfinished_line, waits_line}

inserted : text_of (reply.Inserted (record { page = 3; slot = 14 })) ≡ codes "inserted 3.14\n"
unfolding digits
inserted = refl

began : text_of (reply.Began (record { 0 = 4294967295 })) ≡ codes "begin 4294967295\n"
unfolding digits
began = refl

empty_row : text_of (reply.Row []) ≡ codes "row -\n"
empty_row = refl

page_full : text_of (reply.PageFull 4076) ≡ codes "pagefull 4076\n"
unfolding digits
page_full = refl

died : turn_line 16 (reply.Died (record { 0 = 3 })) ≡ codes "16 died 3\n"
unfolding digits
died = refl

waits : waits_line 2 1 ≡ codes "2 waits 1\n"
unfolding digits
waits = refl

unfinished : unfinished_line 1 3 ≡ codes "1 unfinished 3\n"
unfolding digits
unfinished = refl

created : created_line 16384 ≡ codes "created 16384\n"
unfolding digits
created = refl

restarted : restart_line 12 10 2 ≡ codes "records 12 applied 10 undone 2\n"
unfolding digits
restarted = refl

listed : row_line (record { page = 3; slot = 14 }) (10 ∷ 255 ∷ []) ≡ codes "3.14 0aff\n"
unfolding digits
listed = refl

entered : entry_line 16383 3 ≡ codes "entry 16383 3\n"
unfolding digits
entered = refl

checked : mismatches_line 2 1 ≡ codes "pages 2 mismatches 1\n"
unfolding digits
checked = refl
