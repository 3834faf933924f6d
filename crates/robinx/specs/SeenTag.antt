-- A tag without where it lies in memory.
use Rattle.robinx.specs.Pieces.{Piece}
use Rattle.robinx.specs.declared.tag.Tag.{Tag}

abbrev pub view_of : Tag → Piece
view_of tag = record {
  kind = tag.kind;
  name = tag.name.now;
  attributes = tag.attrs;
  text = tag.text.now;
  line = tag.line;
}
