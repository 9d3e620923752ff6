use Rattle.std.proofs.Common.{◌≡◌, ◌≤◌, [], vec_len, vec_capacity}
use Rattle.rm_pool.specs.Frames.{IsBlockOf, EachIs}
use Rattle.rm_pool.proofs.frames.empty_blocks.Given as goal

abbrev pub invariant-loop-block : goal.invariant-loop-block
invariant-loop-block l =
    record {
      made : EachIs (IsBlockOf []) l.blocks.items;
      count : vec_len l.blocks ≡ l._block;
      room : l.count ≤ vec_capacity l.blocks;
    }
