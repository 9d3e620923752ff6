-- Records that are read one after another.
use Rattle.std.proofs.Common.{◌≡◌, ℕ, ◌+◌, ◌<◌, List, [], ◌∷◌, ◌++◌, length, drop, refl, sym, ap, ◌∙◌, arith, length-append, append_assoc, add-zero}
use Rattle.std.proofs.lemmas.List.{append-nil}
use Rattle.std.specs.List.{AllByRecursion}
use Rattle.rm_record.specs.declared.records.LogRecord.{LogRecord}
use Rattle.rm_record.specs.declared.records.Logged.{Logged}
use Rattle.rm_record.specs.Records.{spelling, spelling_all, IsRecord}
use Rattle.rm_history.specs.Logs.{Batch}
use Rattle.rm_history.specs.Acts.{History, act_at, act_of, acts_of}
use Rattle.rm_history.specs.Batched.{acts_after}
use Rattle.rm_history.proofs.Appending.{acts_after-snoc, acts_of-snoc}
use Rattle.rm_wal.specs.Batches.{BeginsWithNone, ReadsRecord, ReadsSome, ReadsAll, StopsAt}

-- one record more
spelling_all-snoc : (front : Batch) (next : LogRecord) → spelling_all (front ++ next ∷ []) ≡ spelling_all front ++ spelling next
spelling_all-snoc [] next = append-nil (spelling next)
spelling_all-snoc (first ∷ front) next = ap (λ (l : List ℕ). spelling first ++ l) (spelling_all-snoc front next) ∙ sym (append_assoc (spelling first) (spelling_all front) (spelling next))

are-snoc : (front : Batch) (next : LogRecord) → AllByRecursion IsRecord front → IsRecord next → AllByRecursion IsRecord (front ++ next ∷ [])
are-snoc [] next are is = (is, tt)
are-snoc (first ∷ front) next are is = (are.0, are-snoc front next are.1 is)

-- no record yet
pub reads_no_record : (base : ℕ) (bytes : List ℕ) (old : List Logged) → ReadsSome base bytes base bytes old old
reads_no_record base bytes old = record { prefix = []; are = tt; cut = refl; place = sym (add-zero base); acts_are = refl }

pub reads_one_more : {base at size : ℕ} {bytes rest : List ℕ} {old mid new : List Logged} → ReadsSome base bytes at rest old mid → ReadsRecord at rest size mid new
    → ReadsSome base bytes (at + size) (drop size rest) old new
reads_one_more {base} {at} {size} {bytes} {rest} {old} {mid} {new} some one =
    let here : Logged = record { lsn = record { 0 = at }; what = one.what } in
    let spelled = spelling_all-snoc some.prefix one.what in
    record {
      prefix = some.prefix ++ one.what ∷ [];
      are = are-snoc some.prefix one.what some.are one.is;
      cut = some.cut ∙ ap (λ (l : List ℕ). spelling_all some.prefix ++ l) one.cut ∙ sym (append_assoc (spelling_all some.prefix) (spelling one.what) (drop size rest))
          ∙ ap (λ (l : List ℕ). l ++ drop size rest) (sym spelled);
      place = omega (arith, some.place, one.size_is, ap length spelled, length-append (spelling_all some.prefix) (spelling one.what));
      acts_are = ap acts_of one.added ∙ acts_of-snoc mid here ∙ ap (λ (h : History). act_of here ∷ h) some.acts_are
          ∙ ap (λ (n : ℕ). act_at n one.what ∷ acts_after (acts_of old) base some.prefix) some.place
          ∙ sym (acts_after-snoc (acts_of old) base some.prefix one.what);
    }

-- and then nothing is left
pub reads_to_end : {base at : ℕ} {bytes rest : List ℕ} {old new : List Logged} → ReadsSome base bytes at rest old new → rest ≡ [] → ReadsAll base bytes old new
reads_to_end some ended = record {
  batch = some.prefix;
  are = some.are;
  spelled = some.cut ∙ ap (λ (l : List ℕ). spelling_all some.prefix ++ l) ended ∙ append-nil (spelling_all some.prefix);
  acts_are = some.acts_are;
}

-- and then no record follows
pub stops_there : {base at : ℕ} {bytes rest : List ℕ} {old new : List Logged} → ReadsSome base bytes at rest old new → 0 < length rest → BeginsWithNone rest → StopsAt base bytes at
stops_there {rest = rest} some left none = record {
  prefix = some.prefix;
  rest = rest;
  are = some.are;
  cut = some.cut;
  some = left;
  place = some.place;
  none = none;
}
