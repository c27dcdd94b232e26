-- Laws by subject, each file with its own; Laws.antt states those that the layer above cites.
pub mod Test  -- a test that is true
pub mod Xor  -- xor of numbers
pub mod BitRule  -- the scrambler's step, bit by bit
pub mod Linear  -- maps that commute with xor
pub mod Step  -- the scrambler's step and many steps at once
pub mod Prime  -- primes
pub mod Period  -- the scrambler's period
pub mod Permitted  -- permitted seeds
pub mod SeedTable  -- the table of lane seeds
pub mod Pigeonhole  -- one-to-one maps of the numbers below n
pub mod Cycle  -- all states on one cycle
pub mod Ones  -- counting ones, inverting
pub mod Difference  -- integers as differences of naturals
pub mod Machine  -- signed machine numbers
pub mod RunningDisparity  -- the rule on R
pub mod Inversion  -- inversion as an xor with 65535 times a bit
pub mod Building  -- a frame built and read
pub mod Laws
