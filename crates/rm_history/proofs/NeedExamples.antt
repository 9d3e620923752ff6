-- The definitions of what a transaction's undo needs and of what it leaves to the others, on examples.
use Rattle.std.proofs.Common.{◌≡◌, refl}
use Rattle.rm_model.specs.Pages.{used}
use Rattle.rm_history.specs.Contents.{page_of}
use Rattle.rm_history.specs.Needs.{need_of}
use Rattle.rm_history.specs.Room.{others_need, unreserved}
use Rattle.rm_history.proofs.ExampleLogs.{deleted, inserted_and_deleted, deleted_and_inserted, shrunk, each_deleted}

-- ---- one transaction

-- the deleter of a row of 4,000 bytes needs them to undo that, on a page that has its directory alone in use
need_of_delete : (used (page_of deleted 0) ≡ 4) × (need_of deleted 2 0 ≡ 4000)
need_of_delete = (refl, refl)

-- who committed the row needs nothing
need_of_committed : need_of deleted 1 0 ≡ 0
need_of_committed = refl

-- what was inserted before a delete does not lessen the need: the delete is undone first
need_is_the_most : (used (page_of inserted_and_deleted 0) ≡ 3980) × (need_of inserted_and_deleted 2 0 ≡ 100)
need_is_the_most = (refl, refl)

-- what is inserted after a delete does: it is undone before
need_is_given_back : need_of deleted_and_inserted 2 0 ≡ 50
need_is_given_back = refl

-- an update needs the bytes by which the row got shorter, and what is changed on another page does not count
need_of_update : (need_of shrunk 2 0 ≡ 60) × (need_of shrunk 2 1 ≡ 0)
need_of_update = (refl, refl)

-- ---- the others

-- another is to leave the deleter's need, and the deleter itself nothing
others_of_delete : (others_need deleted 3 0 ≡ 4000) × (others_need deleted 2 0 ≡ 0)
others_of_delete = (refl, refl)

-- so of 4,080 bytes without that need and the entry of the slot 76 are left
free_for_another : unreserved deleted 3 0 ≡ 76
free_for_another = refl

-- each of two deleters is to leave what the other one needs, and whoever has deleted nothing what both need
needs_add_up : (others_need each_deleted 1 0 ≡ 300) × (others_need each_deleted 2 0 ≡ 200) × (others_need each_deleted 3 0 ≡ 100)
    × (others_need each_deleted 9 0 ≡ 300)
needs_add_up = (refl, refl, refl, refl)

-- each has left what neither the two entries of the directory nor the other's undo has
free_for_each : (unreserved each_deleted 2 0 ≡ 3872) × (unreserved each_deleted 3 0 ≡ 3972)
free_for_each = (refl, refl)
