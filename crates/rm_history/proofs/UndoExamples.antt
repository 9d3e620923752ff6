-- The definitions of what restart undoes, of what it leaves and of the bytes of that, on examples.
use Rattle.std.proofs.Common.{◌≡◌, [], ◌∷◌, refl}
use Rattle.rm_types.specs.declared.formats.Format.TheVariants.{One}
use Rattle.rm_types.specs.declared.slots.Slot.TheVariants.{Vacant}
use Rattle.rm_model.specs.Pages.{used}
use Rattle.rm_history.specs.Contents.{page_of}
use Rattle.rm_history.specs.Rows.{settled_of}
use Rattle.rm_history.specs.Losers.{losers_of}
use Rattle.rm_history.specs.UndoBytes.{undo_bytes}
use Rattle.rm_history.proofs.ExampleLogs.{row, deleted, undone, ended, the_last_first, in_turn, falls_behind, stays_behind}
use Rattle.rm_history.proofs.ExampleLogs.{two_pending, two_long_pending, not_entered}

-- ---- losers

-- a transaction that deleted a row is one, and the one that committed it is not
loser_of_delete : losers_of deleted ≡ 2 ∷ []
loser_of_delete = refl

-- one that has a record is one with nothing pending too, until it ends
loser_of_undo : (losers_of undone ≡ 2 ∷ []) × (losers_of ended ≡ [])
loser_of_undo = (refl, refl)

-- they are in the order of their ids, however they began, and each is one once
losers_in_order : (losers_of the_last_first ≡ 1 ∷ 3 ∷ []) × (losers_of in_turn ≡ 1 ∷ 2 ∷ 3 ∷ [])
losers_in_order = (refl, refl)

-- ---- pages

-- a row that is deleted and not committed so is there again, and one that is inserted and not committed leaves its slot vacant
settled_pages : (settled_of deleted 0 ≡ row 4000 ∷ []) × (settled_of undone 0 ≡ Vacant ∷ []) × (settled_of the_last_first 0 ≡ Vacant ∷ row 1 ∷ Vacant ∷ [])
settled_pages = (refl, refl, refl)

-- a page without slots has none
settled_elsewhere : settled_of deleted 1 ≡ []
settled_elsewhere = refl

-- ---- bytes

-- a delete undone: the category that the page has with the row again (15), the compensation with the row (4,035), and the end (10)
bytes_of_delete : undo_bytes One deleted ≡ 4060
bytes_of_delete = refl

-- with nothing pending: the end alone, and after it nothing
bytes_of_ends : (undo_bytes One undone ≡ 10) × (undo_bytes One ended ≡ 0)
bytes_of_ends = (refl, refl)

-- two inserts of two losers: two compensations without a row (33 each), and two ends
bytes_of_inserts : undo_bytes One the_last_first ≡ 86
bytes_of_inserts = refl

-- an insert undone: the category that the page has without the row (15), the compensation (33), and the end (10)
bytes_with_entry : (used (page_of falls_behind 0) ≡ 1024) × (undo_bytes One falls_behind ≡ 58)
bytes_with_entry = (refl, refl)

-- where the page keeps its category no record enters it
bytes_without_entry : (used (page_of stays_behind 0) ≡ 1132) × (undo_bytes One stays_behind ≡ 43)
bytes_without_entry = (refl, refl)

-- after the first of two undos the entry is right for the second: one record of it (15), two compensations (33 each), and the end (10)
bytes_of_two : undo_bytes One two_pending ≡ 91
bytes_of_two = refl

-- where each of two undos lowers the category: two records of it
bytes_of_two_long : (used (page_of two_long_pending 0) ≡ 2208) × (undo_bytes One two_long_pending ≡ 106)
bytes_of_two_long = (refl, refl)

-- after the first undo a category that was not entered yet is, and after the second the one without the rows: two records too
bytes_of_not_entered : (used (page_of not_entered 0) ≡ 1208) × (undo_bytes One not_entered ≡ 106)
bytes_of_not_entered = (refl, refl)
