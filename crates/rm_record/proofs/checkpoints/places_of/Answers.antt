use Rattle.std.proofs.Common.{◌≡◌, ◌+◌, ◌-◌, suc, refl, ap, ◌∙◌, arith, length-append, ◌∷◌, []}
use Rattle.rm_record.specs.Fields.{places_field, entries_field}
use Rattle.rm_record.proofs.PlaceLaws.{with_more, with_more_none, entries_more}
use Rattle.rm_record.proofs.checkpoints.places_of.Goals as goal

pub loop-place-init : goal.loop-place-init
unfolding places_field
loop-place-init c =
    rw c.new-places.ensures record {
      reads = let all : c.in_ok-count.count - 0 ≡ c.in_ok-count.count = omega arith in rw (c.in_ok-count.ensures, all, c.from-least.ensures)
          (with_more_none (entries_field c.in_ok-count.count c.args.low c.args.high c.in_ok-count.rest.now));
      above = omega arith;
      count_is = refl;
    }

pub push-requires : goal.push-requires
push-requires c = record {
  few = omega (arith, c.loop-place.invariant.count_is, c.loop-place-test.true);
  greater = omega (arith, c.loop-place.invariant.above, c.in_ok-place.ensures.low);
}

pub loop-place-preserved : goal.loop-place-preserved
loop-place-preserved c =
    let left : c.in_ok-count.count - c.loop-place._place ≡ suc (c.in_ok-count.count - (c.loop-place._place + 1)) = omega (arith, c.loop-place-test.true) in
    rw (c.in_ok-push.ensures.ok, c.from-least-in-loop-place.ensures) record {
      reads = c.loop-place.invariant.reads
          ∙ ap (λ n. with_more c.loop-place.places (entries_field n c.loop-place.least c.args.high c.loop-place.rest.now)) left
          ∙ entries_more _ c.loop-place.least c.args.high c.loop-place.rest.now c.loop-place.places
          c.in_ok-place.place c.in_ok-place.after.now c.in_ok-place.ensures.value;
      above = rw (← c.in_ok-push.ensures.ok) (omega (arith, c.in_ok-push.ensures.next));
      count_is = omega (arith, length-append c.loop-place.places (c.in_ok-place.place ∷ []), c.loop-place.invariant.count_is);
    }
