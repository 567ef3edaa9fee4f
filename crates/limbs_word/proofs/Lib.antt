-- `Up`: a product limb by limb. `Down`: a quotient limb by limb.
mod Up
mod Down
