use Rattle.rm_history.proofs.NeedLaws.{need_is_the_most}
use Rattle.rm_history.proofs.laws.a_need_is_the_most_of_all_suffixes.Goals as goal

pub returns : goal.returns
returns c = need_is_the_most
