mod Listing
mod Placing
