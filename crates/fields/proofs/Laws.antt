-- All that `specs/Laws.antt` says of blocks and fields. Assumes nothing.
use Rattle.fields.specs.Laws.{Laws}
use Rattle.fields.proofs.EndToEnd.{follow}
use Rattle.fields.proofs.AsWritten.{reads}
use Rattle.fields.proofs.OnceOnly.{once, ends, numbers_exactly, anywhere}
use Rattle.fields.proofs.Near.{near}

pub laws : Laws
laws = record { reads = reads; follow = follow; anywhere = anywhere; near = near; once = once; ends = ends; exactly = numbers_exactly }
