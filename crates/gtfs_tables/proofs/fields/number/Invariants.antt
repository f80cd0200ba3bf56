use Rattle.gtfs_tables.proofs.Words.{◌≡◌, ◌<◌, ◌^◌, drop, digits_after}
use Rattle.gtfs_tables.proofs.fields.number.Given as goal

abbrev pub invariant-loop-byte : goal.invariant-loop-byte
invariant-loop-byte l = record {
  spelled : digits_after 0 l.bytes ≡ digits_after l.value (drop l.byte-index l.bytes);
  small : l.value < 10 ^ l.byte-index;
}
