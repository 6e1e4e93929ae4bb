-- The line that text is put into.
use Rattle.text.specs.declared.Line.{Line}
use Rattle.text.specs.Text.{Written, written}

-- where a line is written next, and its buffer
abbrev pub written_in : Line → Written
written_in l = written l.at l.out.now
