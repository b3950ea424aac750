use Rattle.tape.proofs.Readings.{reading_is_whole}
use Rattle.tape.proofs.Standing.{reads_what_stands}
use Rattle.tape.proofs.Reader.next.Goals as goal

pub returns-in_default-clause-what_stands : goal.returns-in_default-clause-what_stands
returns-in_default-clause-what_stands c = reads_what_stands _ _

pub returns-in_default-clause-whole : goal.returns-in_default-clause-whole
returns-in_default-clause-whole c = reading_is_whole _ _

pub returns-in-empty-clause-what_stands : goal.returns-in-empty-clause-what_stands
returns-in-empty-clause-what_stands c = reads_what_stands _ _

pub returns-in-empty-clause-whole : goal.returns-in-empty-clause-whole
returns-in-empty-clause-whole c = reading_is_whole _ _

pub returns-in-len1-clause-what_stands : goal.returns-in-len1-clause-what_stands
returns-in-len1-clause-what_stands c = reads_what_stands _ _

pub returns-in-len1-clause-whole : goal.returns-in-len1-clause-whole
returns-in-len1-clause-whole c = reading_is_whole _ _

pub returns-in_err-ok_or-in-1-clause-what_stands : goal.returns-in_err-ok_or-in-1-clause-what_stands
returns-in_err-ok_or-in-1-clause-what_stands c = reads_what_stands _ _

pub returns-in_err-ok_or-in-1-clause-whole : goal.returns-in_err-ok_or-in-1-clause-whole
returns-in_err-ok_or-in-1-clause-whole c = reading_is_whole _ _

pub returns-in_default-2-clause-what_stands : goal.returns-in_default-2-clause-what_stands
returns-in_default-2-clause-what_stands c = reads_what_stands _ _

pub returns-in_default-2-clause-whole : goal.returns-in_default-2-clause-whole
returns-in_default-2-clause-whole c = reading_is_whole _ _

pub returns-clause-what_stands : goal.returns-clause-what_stands
returns-clause-what_stands c = reads_what_stands _ _

pub returns-clause-whole : goal.returns-clause-whole
returns-clause-whole c = reading_is_whole _ _
