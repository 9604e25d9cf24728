-- Need not be believed: the promise of a function that is no call of document 01; `event_lines` of script_listing/src/lib.rt consumes `fields_of`. Assumes nothing.
use Rattle.computed.specs.Prelude.{ℕ, List}
use Rattle.script_check.specs.Records.{instant_of, kind_of, value_of}
use Rattle.script.specs.declared.records.Record.{Record}

-- the fields of a record's sixteen bytes
abbrev pub fields_of : List ℕ → Record
fields_of bytes = record { at = instant_of bytes 0; kind = kind_of bytes 0; value = value_of bytes 0 }
