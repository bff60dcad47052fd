-- The laws of a file that is salvaged window by window. Assumes nothing.
use Rattle.windows.specs.Laws.{Laws}
use Rattle.windows.proofs.Near.{near}
use Rattle.windows.proofs.Once.{once}
use Rattle.windows.proofs.Whole.{whole, fields, lines}
use Rattle.windows.proofs.Records.{records}

pub laws : Laws
laws =
    record {
      near = near;
      once = λ wanted window last first stands out b r q out' out'' x y p s. once wanted window last first stands out b x y p s;
      whole = whole;
      fields = fields;
      lines = lines;
      records = records;
    }
