-- `fields::time_bytes` meets its contract, byte by byte.
use Rattle.fields.specs.Bytes.{field_byte}
use Rattle.fields.specs.Table.{time_bytes}
use Rattle.fields.proofs.time_bytes.Goals as goal

pub returns : goal.returns
unfolding field_byte time_bytes
returns c = rw (
  c.to_bcd.ensures,
  c.to_bcd-2.ensures,
  c.encode_hour.ensures,
  c.to_bcd-3.ensures,
  c.to_bcd-4.ensures,
  c.century_bit-century.ensures,
  c.to_bcd-5.ensures,
)
