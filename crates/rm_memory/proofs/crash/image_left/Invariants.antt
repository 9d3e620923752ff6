use Rattle.std.proofs.Common.{◌≡◌, ◌≤◌, take, drop}
use Rattle.rm_memory.specs.Areas.{image_of}
use Rattle.rm_memory.specs.Crashes.{unsynced, left}
use Rattle.rm_memory.specs.Notes.{history, synced_in, total}
use Rattle.rm_memory.proofs.crash.image_left.Given as goal

-- the image is what the notes so far leave
abbrev pub invariant-loop-index : goal.invariant-loop-index
invariant-loop-index l =
    let past = history (take l.index l.notes) (take l.start l.bytes) in
    let later = synced_in (drop l.index l.notes) in
    record {
      start : l.start ≡ total (take l.index l.notes);
      few : l.number ≤ l.index;
      number : l.number ≡ unsynced past later;
      image : image_of l.image ≡ left l.outcome (image_of l.base) past later;
    }
