use Rattle.std.proofs.Common.{◌≡◌, ◌++◌, ◌∷◌, [], rules}
use Rattle.sarif.proofs.UriBytes.{uri_grows}
use Rattle.sarif.proofs.uris.uri_bytes.Goals as goal

pub loop-rest-preserved : goal.loop-rest-preserved
loop-rest-preserved c =
    let added : c.push.new.self ≡ c.loop-rest.bytes ++ c.in-Some.byte ∷ [] = search rules in
    uri_grows _ _ _ _ _ _ added c.in-Some.ensures.found c.loop-rest.invariant
