use Rattle.std.proofs.Common.{◌∙◌, Err, refl, ap, subst}
use Rattle.std.specs.Io.KnownBytes.{Appends}
use Rattle.outside.specs.Sink.{WritesFront}
use Rattle.outside.proofs.Rooms.{untouched_itself}
use Rattle.plain_commands.proofs.Made.{makes_no_memory, makes_failed, makes_untold, makes_all}
use Rattle.plain_commands.proofs.making.make.Goals as goal

pub returns-in-Err-clause-ends : goal.returns-in-Err-clause-ends
returns-in-Err-clause-ends g c = makes_no_memory _ _ _ _ c.tell.ensures.end c.tell.ensures.told (untouched_itself _ _)

pub returns-in-Err-OutputFault-clause-ends : goal.returns-in-Err-OutputFault-clause-ends
returns-in-Err-OutputFault-clause-ends g c =
    makes_failed _ _ _ _ refl (c.write_document.ensures.cause.failed (c.in-Err-OutputFault.is ∙ ap Err c.in-Err-OutputFault.field-0-is)) (refl, refl)
    c.write_document.ensures.left

pub returns-in-Err-NoMemory-clause-ends : goal.returns-in-Err-NoMemory-clause-ends
returns-in-Err-NoMemory-clause-ends g c =
    makes_no_memory _ _ _ _ c.tell-in-Err-NoMemory.ensures.end c.tell-in-Err-NoMemory.ensures.told
    (c.write_document.ensures.untouched (c.in-Err-NoMemory.is ∙ ap Err c.in-Err-NoMemory.field-0-is))

pub returns-in-Ok-write_all-clause-ends : goal.returns-in-Ok-write_all-clause-ends
returns-in-Ok-write_all-clause-ends g c =
    makes_all _ _ _ _ refl c.in-Ok-write_document.ensures.bytes
    (subst (Appends _ _) (c.as_bytes.ensures.value ∙ c.in-Ok.ensures) c.in-Ok-write_all.ensures.bytes)

pub returns-clause-ends : goal.returns-clause-ends
returns-clause-ends g c =
    makes_untold _ _ _ _ refl c.in-Err-write_all.ensures.cause.failed c.in-Ok-write_document.ensures.bytes
    (subst (WritesFront _ _) (c.as_bytes.ensures.value ∙ c.in-Ok.ensures) c.write_all.ensures.front)
