use Rattle.std.proofs.Common.{◌∷◌, ◌∙◌, List, sym, ap, refl}
use Rattle.rm_outside.specs.Images.{Image}
use Rattle.rm_outside.specs.Puts.{put}
use Rattle.rm_memory.specs.Areas.{image_of}
use Rattle.rm_outside.specs.History.{Event, content, Write}
use Rattle.rm_memory.specs.Mediums.{events}
use Rattle.rm_memory.proofs.NoteLemmas.{noted_history, noted_total}
use Rattle.rm_outside.proofs.HistoryLaws.{content-took, content-lost}
use Rattle.rm_memory.proofs.medium.Medium.write.Goals as goal

pub invariant_of-self-then-took : goal.invariant_of-self-then-took
invariant_of-self-then-took c =
    let self = c.args.self.now in
    let base = image_of self.base in
    let noted = noted_history _ self.notes.items c.try_reserve.new.self.items c.push_reserved.new.self.items self.bytes.items c.args.from.now c.extend_from_slice.new.self.items self.counted refl c.try_reserve.ensures.items c.push_reserved.ensures.items c.in_ok-extend_from_slice.ensures.items in
    let took = noted ∙ ap (λ t. Write c.args.area c.args.at c.args.from.now t ∷ events self) c.if-took.true in
    record {
      counted = noted_total _ self.notes.items c.try_reserve.new.self.items c.push_reserved.new.self.items self.bytes.items c.args.from.now c.extend_from_slice.new.self.items self.counted refl c.try_reserve.ensures.items c.push_reserved.ensures.items c.in_ok-extend_from_slice.ensures.items;
      kept = c.put_bytes.ensures ∙ ap (λ (image : Image). put image c.args.area c.args.at c.args.from.now) (c.make_room.ensures.same ∙ self.kept) ∙ sym (content-took base c.args.area c.args.at c.args.from.now (events self)) ∙ sym (ap (λ (es : List Event). content base es) took);
    }

pub invariant_of-self-else-took : goal.invariant_of-self-else-took
invariant_of-self-else-took c =
    let self = c.args.self.now in
    let base = image_of self.base in
    let noted = noted_history _ self.notes.items c.try_reserve.new.self.items c.push_reserved.new.self.items self.bytes.items c.args.from.now c.extend_from_slice.new.self.items self.counted refl c.try_reserve.ensures.items c.push_reserved.ensures.items c.in_ok-extend_from_slice.ensures.items in
    let lost = noted ∙ ap (λ t. Write c.args.area c.args.at c.args.from.now t ∷ events self) c.if-took.false in
    record {
      counted = noted_total _ self.notes.items c.try_reserve.new.self.items c.push_reserved.new.self.items self.bytes.items c.args.from.now c.extend_from_slice.new.self.items self.counted refl c.try_reserve.ensures.items c.push_reserved.ensures.items c.in_ok-extend_from_slice.ensures.items;
      kept = c.make_room.ensures.same ∙ self.kept ∙ sym (content-lost base c.args.area c.args.at c.args.from.now (events self)) ∙ sym (ap (λ (es : List Event). content base es) lost);
    }

pub returns-then-took-clause-ok : goal.returns-then-took-clause-ok
returns-then-took-clause-ok c =
    let self = c.args.self.now in
    noted_history _ self.notes.items c.try_reserve.new.self.items c.push_reserved.new.self.items self.bytes.items c.args.from.now c.extend_from_slice.new.self.items self.counted refl c.try_reserve.ensures.items c.push_reserved.ensures.items c.in_ok-extend_from_slice.ensures.items

pub returns-else-took-clause-ok : goal.returns-else-took-clause-ok
returns-else-took-clause-ok c =
    let self = c.args.self.now in
    noted_history _ self.notes.items c.try_reserve.new.self.items c.push_reserved.new.self.items self.bytes.items c.args.from.now c.extend_from_slice.new.self.items self.counted refl c.try_reserve.ensures.items c.push_reserved.ensures.items c.in_ok-extend_from_slice.ensures.items
