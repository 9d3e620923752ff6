use Rattle.std.proofs.Common.{ℕ, arith}
use Rattle.std.proofs.lemmas.List.{length-replicate}
use Rattle.rm_types.specs.declared.numbers.TheConstants.{BLOCK_PAGES}
use Rattle.rm_inventory.proofs.EmptyEntries.{zeros_at}
use Rattle.rm_inventory.proofs.Inventory.new.Goals as goal

pub invariant_of-result : goal.invariant_of-result
invariant_of-result c = record { count = length-replicate {A = ℕ} BLOCK_PAGES 0; categories = λ index. omega (arith, zeros_at BLOCK_PAGES index) }

pub returns-clause-entries : goal.returns-clause-entries
returns-clause-entries c = zeros_at BLOCK_PAGES
