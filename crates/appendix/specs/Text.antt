-- What is printed: "a line each, as its kind 1 record of node 0 in lowercase hexadecimal without spaces".
-- Assumes nothing.
use Rattle.std.specs.Prelude.{List, [], ◌∷◌, ◌++◌}
use Rattle.hex.specs.Hex.{encode_lower}
use Rattle.model.specs.Sizes.{Bytes}
use Rattle.appendix_views.specs.Views.{View, views}
use Rattle.appendix_views.specs.Recorded.{record_bytes}

abbrev pub line_of : View → Bytes
line_of v = encode_lower (record_bytes 0 v) ++ (10 ∷ [])

unfoldable pub lines_of : List View → Bytes
lines_of [] = []
lines_of (v ∷ vs) = line_of v ++ lines_of vs

abbrev pub appendix_text : Bytes
appendix_text = lines_of views
