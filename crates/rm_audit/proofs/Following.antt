-- Only a commit can leave an entry that is not its page's category, and only on the pages of its transaction's pending changes.
use Rattle.std.proofs.Common.{◌≡◌, ℕ, List, [], ◌∷◌, refl, sym, ap, subst, ◌∙◌, inl, inr}
use Rattle.std.proofs.lemmas.Bool.{cases_eq, ne_eqb}
use Rattle.rm_types.specs.declared.formats.Format.{Format}
use Rattle.rm_history.specs.Acts.{Act, Change, History, changes, undoes, enters, commits, ends, marks}
use Rattle.rm_history.specs.Pending.{pending_of}
use Rattle.rm_history.specs.Needs.{on_page}
use Rattle.rm_history.specs.Rules.{MayCome}
use Rattle.rm_history.specs.Legal.{IsEntered, FollowsOn, EntriesFollow}
use Rattle.rm_history.proofs.PendingSteps.{pending-commit_other}
use Rattle.rm_history.proofs.Following.{entries_follow_change, entries_follow_undo, entries_follow_entry, entries_follow_end}
use Rattle.rm_audit.specs.Parts.{EachFollows}

-- a page of one of these changes
pub follows_among : (format : Format) (history : History) (pending : List Change) (page : ℕ) → EachFollows format history pending
    → (on_page page pending ≡ [] → ⊥) → FollowsOn format history page
follows_among format history [] page each some = absurd (some refl)
follows_among format history (newest ∷ before) page each some =
    elim (cases_eq newest.rid.page page) [
      | inl same ↦ subst (FollowsOn format history) same each.0
      | inr other ↦ follows_among format history before page each.1 (λ none. some (rw (ne_eqb newest.rid.page page other) none))
    ]

-- the record is a commit of this transaction
abbrev pub IsCommitOf : Act → ℕ → Type 0
IsCommitOf (changes c) txn = ⊥
IsCommitOf (undoes u) txn = ⊥
IsCommitOf (enters e) txn = ⊥
IsCommitOf (commits f) txn = f.txn ≡ txn
IsCommitOf (ends f) txn = ⊥
IsCommitOf (marks m) txn = ⊥

pub keeps_entries : (format : Format) (act : Act) (before : History) → MayCome before act → IsEntered format before act → EntriesFollow format before
    → ((txn : ℕ) → IsCommitOf act txn → EachFollows format (act ∷ before) (pending_of before txn)) → EntriesFollow format (act ∷ before)
keeps_entries format (changes c) before may entered follow committed page = entries_follow_change format before c follow page
keeps_entries format (undoes u) before may entered follow committed page = entries_follow_undo format before u may entered follow page
keeps_entries format (enters e) before may entered follow committed page = entries_follow_entry format before e may follow page
keeps_entries format (commits f) before may entered follow committed page = elim (follow page) [
  | inl right ↦ inl right
  | inr some ↦ elim (cases_eq f.txn some.0) [
    | inl mine ↦ follows_among format (commits f ∷ before) (pending_of before some.0) page (committed some.0 mine) some.1
    | inr other ↦ inr (some.0, λ none. some.1 (ap (on_page page) (sym (pending-commit_other f before some.0 other)) ∙ none))
  ]
]
keeps_entries format (ends f) before may entered follow committed page = entries_follow_end format before f may follow page
keeps_entries format (marks m) before may entered follow committed page = follow page
