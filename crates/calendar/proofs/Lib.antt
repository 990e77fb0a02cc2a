mod Days
mod Listings
mod Months
mod Noting
mod WrittenDates
mod Zeros
