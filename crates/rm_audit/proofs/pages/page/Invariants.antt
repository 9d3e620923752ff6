use Rattle.std.proofs.Common.{◌≡◌, take}
use Rattle.rm_history.specs.Acts.{acts_of}
use Rattle.rm_history.specs.Contents.{page_of}
use Rattle.rm_audit.proofs.pages.page.Given as goal

abbrev pub invariant-loop-logged : goal.invariant-loop-logged
invariant-loop-logged l = l.slots.items ≡ page_of (acts_of (take l.logged-index l.log)) l.number
