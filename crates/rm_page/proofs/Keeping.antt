-- What a page keeps beside its slots, once one of them is set.
use Rattle.std.proofs.Common.{◌≡◌, ℕ, ◌<◌, ◌≤◌, List, length, max, min, arith}
use Rattle.std.proofs.lemmas.Grind.{common_steps}
use Rattle.rm_types.specs.declared.slots.Slot.{Slot}
use Rattle.rm_types.specs.declared.slots.Slot.TheVariants.{Vacant, Row}
use Rattle.rm_types.specs.declared.slots.TheConstants.{CAPACITY}
use Rattle.rm_model.specs.Pages.{used, set_slot}
use Rattle.rm_model.proofs.Slots.{length-set_slot, row_at-set_slot, used-set_slot}
use Rattle.rm_page.specs.Directory.{IsReady, IsLeastVacant, IsKept}

-- the least vacant slot, once a slot has a row: it is sought from the old one on
least_with_row : (slots : List Slot) (number vacant now : ℕ) (row : List ℕ) → IsLeastVacant slots 0 vacant
    → IsLeastVacant (set_slot slots number (Row row)) vacant now → IsLeastVacant (set_slot slots number (Row row)) 0 now
least_with_row slots number vacant now row old new =
    record {
      from = omega arith;
      vacant = new.vacant;
      least = λ at from below. grind (arith, common_steps, row_at-set_slot slots number at (Row row), old.least at, new.least at);
    }

-- and once a slot is vacant
least_with_vacant : (slots : List Slot) (number vacant : ℕ) → IsLeastVacant slots 0 vacant → IsLeastVacant (set_slot slots number Vacant) 0 (min vacant number)
least_with_vacant slots number vacant old =
    record {
      from = omega arith;
      vacant = grind (arith, common_steps, row_at-set_slot slots number (min vacant number) Vacant);
      least = λ at from below. grind (arith, common_steps, row_at-set_slot slots number at Vacant, old.least at);
    }

-- all of it, once a slot has a row: the memory is as wide as the page's and as the spare one
pub kept_with_row : (slots : List Slot) (number bytes vacant capacity spare now least wide : ℕ) (row : List ℕ) → IsKept slots bytes vacant capacity
    → IsReady slots number spare → used (set_slot slots number (Row row)) ≤ CAPACITY → now ≡ used (set_slot slots number (Row row))
    → IsLeastVacant (set_slot slots number (Row row)) vacant least → max capacity spare ≤ wide → IsKept (set_slot slots number (Row row)) now least wide
kept_with_row slots number bytes vacant capacity spare now least wide row old ready fits is found more =
    record {
      counted = is;
      fits = fits;
      least = least_with_row slots number vacant least row old.least found;
      memory = omega (arith, old.memory, ready, more, length-set_slot slots number (Row row));
    }

-- and once a slot is vacant
pub kept_with_vacant : (slots : List Slot) (number bytes vacant capacity now : ℕ) → number < length slots → IsKept slots bytes vacant capacity
    → now ≡ used (set_slot slots number Vacant) → IsKept (set_slot slots number Vacant) now (min vacant number) capacity
kept_with_vacant slots number bytes vacant capacity now inside old is =
    record {
      counted = is;
      fits = omega (arith, old.fits, used-set_slot slots number Vacant);
      least = least_with_vacant slots number vacant old.least;
      memory = omega (arith, old.memory, length-set_slot slots number Vacant);
    }
