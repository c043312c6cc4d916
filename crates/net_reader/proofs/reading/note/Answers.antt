use Rattle.net_reader.proofs.reading.note.Goals as goal

pub returns-in-Pattern : goal.returns-in-Pattern
returns-in-Pattern c = rw c.in-Pattern.is c.note_pattern.ensures
