-- Where the data of a body stands, there it is. Assumes nothing.
use lib.Seq.{take-length}
use Rattle.pgs_base.proofs.Lists.{to_end}
use Rattle.pgs_ods.specs.OdsBody.{head_size, flag_of}
use Rattle.pgs_segment.specs.Fields.{OdsPart, OtherPart}

pub ods-part : OdsPart
ods-part b = to_end (head_size (flag_of b)) b

pub other-part : OtherPart
other-part v b = take-length b
