use mathlib.Core.Path.{◌≡◌}
use lib.ListN.{drop}
use Rattle.text.specs.Words.{same_bytes}
use Rattle.values.specs.Decode.{bytes_at, before}
use Rattle.site.specs.Url.{until_end, authority_of}
use Rattle.naming.proofs.wanted.has_authority.Given as goal

abbrev pub invariant-loop-b : goal.invariant-loop-b
invariant-loop-b l = same_bytes (authority_of (bytes_at l.file l.url)) l.w ≡ same_bytes (until_end (before l.p (bytes_at l.file))) (drop l.b-index l.w)
