-- What a call of an end, or a record of a trace, leaves as it is of the memory: of the one before it, and the one after.
use Rattle.std.specs.Prelude.{◌≡◌}
use Rattle.replay_stage.specs.declared.memory.Memory.{Memory}

-- the region's length, and how many entries of each store are lent
abbrev pub SameLent : Memory → Memory → Type 0
SameLent old new =
    (new.length ≡ old.length)
    × (new.region.lent ≡ old.region.lent)
    × (new.ids.lent ≡ old.ids.lent)
    × (new.taken.lent ≡ old.taken.lent)
    × (new.held.lent ≡ old.held.lent)
    × (new.addrs.lent ≡ old.addrs.lent)
    × (new.lens.lent ≡ old.lens.lent)

-- the producer's calls leave these, and all that is lent to the consumer alone
abbrev pub KeptByProducer : Memory → Memory → Type 0
KeptByProducer old new =
    SameLent old new
    × (new.held ≡ old.held)
    × (new.addrs ≡ old.addrs)
    × (new.lens ≡ old.lens)
    × (new.registers ≡ old.registers)

-- the consumer's calls leave these, and all that is lent to the producer alone; the registers are its own
abbrev pub KeptByConsumer : Memory → Memory → Type 0
KeptByConsumer old new = SameLent old new × (new.ids ≡ old.ids) × (new.taken ≡ old.taken)

-- what is left by a record that writes the region's bytes (op 64), an entry of a table (op 68, and opening, which fills tables), or
-- how much is lent (op 69)
abbrev pub KeptBesideRegion : Memory → Memory → Type 0
KeptBesideRegion old new =
    SameLent old new
    × (new.ids ≡ old.ids)
    × (new.taken ≡ old.taken)
    × (new.held ≡ old.held)
    × (new.addrs ≡ old.addrs)
    × (new.lens ≡ old.lens)
    × (new.registers ≡ old.registers)

abbrev pub KeptBesideTables : Memory → Memory → Type 0
KeptBesideTables old new =
    SameLent old new
    × (new.region ≡ old.region)
    × (new.addrs ≡ old.addrs)
    × (new.lens ≡ old.lens)
    × (new.registers ≡ old.registers)

abbrev pub KeptBesideLoans : Memory → Memory → Type 0
KeptBesideLoans old new =
    (new.length ≡ old.length)
    × (new.region.all ≡ old.region.all)
    × (new.ids.all ≡ old.ids.all)
    × (new.taken.all ≡ old.taken.all)
    × (new.held.all ≡ old.held.all)
    × (new.addrs.all ≡ old.addrs.all)
    × (new.lens.all ≡ old.lens.all)
    × (new.registers ≡ old.registers)

-- a submission reads the stack of IDs and leaves it
abbrev pub KeptBySubmission : Memory → Memory → Type 0
KeptBySubmission old new = KeptByProducer old new × (new.ids ≡ old.ids)

-- the consumer's calls that are lent the bytes and its counts alone; of these a rollback leaves the bytes too
abbrev pub KeptByCompletion : Memory → Memory → Type 0
KeptByCompletion old new = KeptByConsumer old new × (new.addrs ≡ old.addrs) × (new.lens ≡ old.lens) × (new.registers ≡ old.registers)

abbrev pub KeptByRollback : Memory → Memory → Type 0
KeptByRollback old new = KeptByCompletion old new × (new.region ≡ old.region)

-- a checkpoint writes a register alone, and so does the op 70
abbrev pub KeptByCheckpoint : Memory → Memory → Type 0
KeptByCheckpoint old new =
    KeptByConsumer old new
    × (new.region ≡ old.region)
    × (new.held ≡ old.held)
    × (new.addrs ≡ old.addrs)
    × (new.lens ≡ old.lens)
