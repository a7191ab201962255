-- Q-8 from a text on: what reading accepts obeys the rules, so that the theorems on tables that obey them hold of it.
use Rattle.reader.specs.Reading.{read_into}
use Rattle.sampler.specs.Demand3.{sampling}
use Rattle.end_to_end.proofs.Third.{its-obeying}
use Rattle.point_bounds.specs.Files.{FilesInside}
use Rattle.point_bounds.proofs.Inside.{elements-inside}

pub files-inside : FilesInside read_into sampling
files-inside s S u h number c = elements-inside u (read_into s S).tables number (its-obeying s S u h number c)
