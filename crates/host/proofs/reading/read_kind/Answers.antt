-- `reading::read_kind` meets its contract: by what the reader answers. Assumes nothing.
use Rattle.host.proofs.Values.{kind_refused, kind_read}
use Rattle.std.proofs.lemmas.Result.{err_from_is_err_and}
use Rattle.host.proofs.reading.read_kind.Goals as goal

pub returns-in_err-record : goal.returns-in_err-record
returns-in_err-record c =
    let p = err_from_is_err_and c.from_residual.result c.from_residual.ensures.1 in
    rw (p.1, p.2) (kind_refused _ _ _ c.read_words.ensures _ c.in_err-record.was)

pub returns : goal.returns
returns c = kind_read _ _ _ c.read_words.ensures _ _ _ c.in_ok-record.was c.list_of.ensures
