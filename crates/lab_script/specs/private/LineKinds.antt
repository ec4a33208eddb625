-- Lab scripts: the kind of a line, as code has it. Which line is of which kind isn't here.
use Rattle.lab_script.specs.Lines as lines
use Rattle.lab_script.specs.declared.cutting.LineKind.{LineKind}
use Rattle.lab_script.specs.declared.cutting.LineKind.TheVariants.{Request, Search, Plain}

-- a line's kind as clauses see it, with the rest of the line
abbrev pub kind_view : LineKind → lines.LineKind
kind_view (Request rest) = lines.request_line rest.now
kind_view (Search rest) = lines.search_line rest.now
kind_view Plain = lines.plain_line
