-- What stands before the newest records of a history.
use Rattle.std.proofs.Common.{[], ◌∷◌}
use Rattle.rm_history.specs.Laws.{EmptyIsLegal, PrefixesAreInOrder, LegalPrefixes, LegalIsInOrder}

-- what stands before the newest records is in order
pub prefixes_are_in_order : PrefixesAreInOrder
prefixes_are_in_order [] before ordered = ordered
prefixes_are_in_order (act ∷ newest) before ordered = prefixes_are_in_order newest before ordered.0

-- what stands before the newest records is legal
pub legal_prefixes : LegalPrefixes
legal_prefixes start [] before legal = legal
legal_prefixes start (act ∷ newest) before legal = legal_prefixes start newest before legal.0

-- a legal history is in order
pub legal_is_in_order : LegalIsInOrder
legal_is_in_order start [] legal = tt
legal_is_in_order start (act ∷ before) legal = (legal_is_in_order start before legal.0, legal.1)

pub empty_is_legal : EmptyIsLegal
empty_is_legal start = tt
