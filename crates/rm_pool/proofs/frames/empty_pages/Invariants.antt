use Rattle.std.proofs.Common.{◌≡◌, ◌≤◌, [], vec_len, vec_capacity}
use Rattle.rm_pool.specs.Frames.{IsPageOf, EachIs}
use Rattle.rm_pool.proofs.frames.empty_pages.Given as goal

abbrev pub invariant-loop-page : goal.invariant-loop-page
invariant-loop-page l =
    record {
      made : EachIs (IsPageOf []) l.pages.items;
      count : vec_len l.pages ≡ l._page;
      room : l.count ≤ vec_capacity l.pages;
    }
