-- How C tells the reading.
use Rattle.std.specs.Prelude.{Bool, true, false}
use Rattle.report.specs.declared.Reading.{Reading}

-- filled or strict
abbrev pub reading_told : Bool → Reading
reading_told true = Reading.Filled
reading_told false = Reading.Strict
