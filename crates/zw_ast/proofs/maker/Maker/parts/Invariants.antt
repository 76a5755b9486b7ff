use Rattle.std.proofs.Common.{◌≡◌, ◌++◌, max}
use Rattle.zw_ast.specs.Part.{segment_parts, segments_height}
use Rattle.zw_ast.proofs.maker.Maker.parts.Given as goal

abbrev pub invariant-segments : goal.invariant-segments
invariant-segments l =
    (l.parts ++ segment_parts l.segment-iterator.rest.items l.fn.last ≡ segment_parts l.fn.segments.items l.fn.last)
    × (max l.height (segments_height l.segment-iterator.rest.items) ≡ segments_height l.fn.segments.items)
