use Rattle.std.proofs.Common.{◌^◌}
use Rattle.message_reader.specs.Flat.{flat_data}
use Rattle.message_reader.proofs.FewItems.{few-read}
use Rattle.message_reader.proofs.line_room.LineRoom.read_flat_line.Goals as goal

pub said_by-requires : goal.said_by-requires
said_by-requires c = record { few = few-read (2 ^ 31) c.args.text.now (flat_data c.in_ok-object.object) c.requires.few c.in_ok-object.ensures }
