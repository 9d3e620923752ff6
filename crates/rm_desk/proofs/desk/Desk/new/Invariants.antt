use Rattle.rm_desk.proofs.Names.{replicate, MAX_SESSIONS, empty_seat}
use Rattle.rm_desk.proofs.desk.Desk.new.Given as goal

abbrev pub ghost-of : goal.ghost-of
ghost-of g a = record { history = g.history; seats = replicate MAX_SESSIONS empty_seat; next = a._from.now }
