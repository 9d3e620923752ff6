use Rattle.std.proofs.Common.{◌≡◌, ◌≤◌, [], replicate, All, vec_len, vec_capacity}
use Rattle.rm_model.specs.Files.{slots_of}
use Rattle.rm_page.proofs.files.empty_pages.Given as goal

abbrev pub invariant-loop-page : goal.invariant-loop-page
invariant-loop-page l =
    record {
      slots : slots_of l.pages.items ≡ replicate l._page [];
      lsns : All (λ page. page.lsn.0 ≡ 0) l.pages.items;
      count : vec_len l.pages ≡ l._page;
      room : l.count ≤ vec_capacity l.pages;
    }
